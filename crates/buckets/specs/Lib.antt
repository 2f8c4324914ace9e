pub mod Hashes
pub mod Index
