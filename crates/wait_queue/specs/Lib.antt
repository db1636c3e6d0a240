pub mod Entering
pub mod Laws
pub mod Meets
pub mod Settles
pub mod Walks
pub use Rattle.ttwu_core.specs.Own
pub use Rattle.ttwu_core.specs.Rests
pub use Rattle.ttwu_core.specs.Wakes
