pub mod Earlier
pub mod Numbered
pub mod VerdictLaws
