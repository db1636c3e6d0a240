pub mod FoundLemmas
pub mod Notes
pub mod Stores
pub mod Writes
