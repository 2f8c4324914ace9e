pub mod Adding
pub mod Flags
pub mod Named
pub mod Parsed
pub mod Spelled
pub mod Strict
