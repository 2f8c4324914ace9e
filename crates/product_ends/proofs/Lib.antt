-- lemmas
pub mod Alone
pub mod Beginning
pub mod Closing
pub mod Converting
pub mod Counting
pub mod Growing
pub mod Led
pub mod Left
pub mod Putting
pub mod Reached
pub mod Renumbering
pub mod RowsIn
pub mod Saying
pub mod Stepping
pub mod Trying
pub mod Unfolding
pub mod Widening
