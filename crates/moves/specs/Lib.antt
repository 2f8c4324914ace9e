pub mod EndSteps
pub mod KeptEnds
pub mod Moves
pub mod Notes
pub mod Tables
