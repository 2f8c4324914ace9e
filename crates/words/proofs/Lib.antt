pub mod Digits
pub mod Removing
