pub mod Once
pub mod Times
pub mod Turns
pub mod Finds
pub mod Steps
pub mod Twins
pub mod Merge
pub mod Build
pub mod Legal
pub mod Oks
pub mod OkOfDequeue
pub mod Quiet
pub mod Budgets
pub mod BadPrefixes
mod Instances
