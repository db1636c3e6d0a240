pub mod Conditions
pub mod CurrentKept
pub mod EndedKept
pub mod Events
pub mod ExclusivesKept
pub mod FirstCore
mod Flats
pub mod FlatWords
pub mod Gives
pub mod Loads
pub mod MatchedKept
pub mod MovingKept
pub mod MovingSteps
pub mod NumbersKept
mod OwnRead
pub mod PutKept
pub mod Puts
pub mod QueuedKept
mod Rows
pub mod Runs
mod Shown
pub mod Stores
pub mod Takes
