pub mod Trials
pub mod Examples
pub mod Machine
pub mod Tickets
