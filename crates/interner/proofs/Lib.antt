pub mod Lists
pub mod Founding
pub mod Indexing
