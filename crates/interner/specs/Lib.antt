pub mod Numbers
pub mod FoundKeys
pub mod Founds
pub mod Index
