pub mod Ending
pub mod Identities
pub mod Latest
pub mod Marking
pub mod Meaning
pub mod Rising
pub mod Turning
pub mod Words
