pub mod Fits
pub mod Queues
pub mod Waits
