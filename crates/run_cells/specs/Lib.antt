pub mod Ends
pub mod NetMaps
pub mod Telling
