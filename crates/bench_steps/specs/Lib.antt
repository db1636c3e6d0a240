pub mod Placing
pub mod Small
