pub mod ActLemmas
pub mod EntryLemmas
pub mod FoundLemmas
pub mod Tables
