pub mod Families
pub mod Leaving
pub mod Lists
pub mod Numbers
pub mod Putting
pub mod Sets
