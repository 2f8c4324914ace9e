pub mod Commands
pub mod Defaults
pub mod Orders
pub mod Stops
pub mod Words
