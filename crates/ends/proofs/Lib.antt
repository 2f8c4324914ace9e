pub mod Starting
pub mod Closing
pub mod Growing
pub mod Beyond
pub mod Passing
pub mod Settling
pub mod Marking
