pub mod Locks
pub mod Running
pub mod Steps
pub mod Waking
