pub mod BetweenReads
pub mod Lines
pub mod Live
pub mod Logs
pub mod RefusalLine
pub mod ReplyText
pub mod Stopping
pub mod Watch
