pub mod Rows
pub mod WorksLemmas
