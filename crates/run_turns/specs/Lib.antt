pub mod Conds
pub mod Deaths
pub mod Laws
pub mod Standing
pub mod Turns
