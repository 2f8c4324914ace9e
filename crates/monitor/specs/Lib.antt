pub mod Judged
pub mod Loading
pub mod Monitors
pub mod Rows
pub mod Settings
pub mod SoundMonitor
