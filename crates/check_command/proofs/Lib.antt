pub mod Recording
pub mod OneReport
