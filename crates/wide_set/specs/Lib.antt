pub mod Facts
pub mod Queries
pub mod Kept
pub mod Judges
pub mod Views
