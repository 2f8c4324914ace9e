pub mod Asking
pub mod CoreView
pub mod Fitness
pub mod Setups
pub mod SoundCore
pub mod Tickets
