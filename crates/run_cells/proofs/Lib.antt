pub mod EndLaws
pub mod NetMapLaws
pub mod TellingLaws
