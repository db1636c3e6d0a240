pub mod Beginning
pub mod BodyLaws
pub mod NetLaws
pub mod Raising
pub mod RestLaws
pub mod TurnLaws
pub mod TurnMeaning
