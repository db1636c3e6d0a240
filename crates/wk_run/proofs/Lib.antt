pub mod Fronts
pub mod Known
pub mod OutputLaws
pub mod RunLaws
pub mod CheckLaws
