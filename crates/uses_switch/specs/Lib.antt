pub mod Looks
pub mod Seated
