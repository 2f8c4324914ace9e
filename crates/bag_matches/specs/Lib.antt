pub mod Matches
pub mod Counts
