pub mod MoveRule
pub mod Threads
