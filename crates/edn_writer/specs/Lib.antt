pub mod Profile
pub mod Canonical
pub mod Writing
