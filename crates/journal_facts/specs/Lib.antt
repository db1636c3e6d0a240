pub mod Answers
pub mod Facts
pub mod Members
pub mod Order
