pub mod Laws
pub mod Reached
pub mod Runs
pub mod StepLaws
pub mod Steps
