pub mod Kinds
pub mod AnyState
