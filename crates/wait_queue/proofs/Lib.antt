mod Enters
mod Laws
mod Meetings
mod Parts
mod Passes
pub mod Settling
mod Turning
mod Walked
