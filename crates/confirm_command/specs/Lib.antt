pub mod Listing
pub mod Found
pub mod Telling
pub mod Confirms
