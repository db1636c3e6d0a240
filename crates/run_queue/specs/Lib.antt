pub mod Queueing
pub mod Rests
pub mod Starts
