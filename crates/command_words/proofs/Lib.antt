mod Bools
mod Numbers
mod Spelling
mod Parsing
mod Following
mod Readings
