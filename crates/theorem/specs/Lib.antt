pub mod Theorem
pub mod Histories
pub mod Bridges
