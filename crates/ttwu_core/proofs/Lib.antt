mod Loops
mod Resting
mod Sequence
mod Sparing
mod Steps
mod Waiting
