pub mod Lending
pub mod Shares
pub mod Slots
