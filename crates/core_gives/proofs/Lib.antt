pub mod FitsLemmas
pub mod Places
pub mod WaitsLemmas
