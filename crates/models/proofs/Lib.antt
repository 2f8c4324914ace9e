pub mod Dequeues
pub mod Unordered
pub mod Apart
pub mod Counting
pub mod Steps
pub mod Tables
pub mod Fronts
