pub mod Keeping
pub mod Traces
pub mod Wrapped
