pub mod ExitStatus
pub mod Reading
pub mod Recorded
pub mod Checks
