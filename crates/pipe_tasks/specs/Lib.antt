pub mod Words
pub mod Plans
pub mod Works
pub mod Feeds
pub mod Joins
pub mod Tasks
