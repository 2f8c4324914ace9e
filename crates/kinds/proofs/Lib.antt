pub mod AnyStates
pub mod Apart
pub mod Crossing
