pub mod Facts
pub mod Kept
pub mod Judges
pub mod Views
