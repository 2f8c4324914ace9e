pub mod Pushing
pub mod Following
pub mod Standing
pub mod Refused
