pub mod Homes
pub mod Sitting
pub mod Spelling
