pub mod Options
pub mod Plans
