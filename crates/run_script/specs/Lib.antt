pub mod Dealt
pub mod Ran
pub mod Seated
pub mod Told
