pub mod Sequences
pub mod Truths
