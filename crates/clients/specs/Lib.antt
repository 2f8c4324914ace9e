pub mod Calls
pub mod Plays
pub mod Playing
pub mod Runs
