pub mod Laws
pub mod Listings
pub mod Outages
pub mod Requests
