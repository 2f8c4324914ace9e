pub mod Facts
pub mod Queries
pub mod Kept
pub mod Counted
pub mod Judges
pub mod Views
