pub mod Facts
pub mod Counts
pub mod Views
pub mod Fronts
