pub mod Conversion
pub mod Transitions
pub mod Growing
pub mod Widening
