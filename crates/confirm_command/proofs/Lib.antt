pub mod Lists
pub mod Told
pub mod Confirmed
pub mod OneAnswer
