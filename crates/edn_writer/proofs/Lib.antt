pub mod Appending
pub mod InProfile
pub mod Profiles
pub mod ReadsBack
