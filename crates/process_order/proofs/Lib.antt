pub mod Moves
pub mod InTurn
pub mod Once
pub mod Legal
