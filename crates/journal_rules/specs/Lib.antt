pub mod Keys
pub mod Known
pub mod Marks
pub mod Order
pub mod Turns
