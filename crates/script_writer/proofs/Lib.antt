pub mod LoopLaws
pub mod WordLaws
pub mod NumberLaws
pub mod LineBack
pub mod NameBack
pub mod TaskBack
pub mod Faultless
pub mod TextBack
