pub mod Tape
pub mod Seat
pub mod CoreTape
pub mod TapeRule
