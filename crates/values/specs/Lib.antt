pub mod Members
pub mod Multisets
pub mod Sums
pub mod Spans
pub mod Rolled
pub mod Comparisons
