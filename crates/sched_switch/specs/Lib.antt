pub mod Currents
pub mod Laws
pub mod Sleeps
pub mod Standing
pub mod Switches
