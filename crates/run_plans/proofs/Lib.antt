pub mod Fitting
pub mod Limited
pub mod Spelled
