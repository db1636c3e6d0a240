pub mod Closes
pub mod FirstPasses
pub mod Shapes
