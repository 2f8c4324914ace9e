pub mod Turns
pub mod Generators
pub mod Draws
pub mod SearchResults
pub mod Moves
pub mod Words
pub mod Codes
pub mod Sources
