pub mod NextGives
pub mod Opened
