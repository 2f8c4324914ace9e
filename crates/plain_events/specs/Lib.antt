pub mod Plain
pub mod Usual
pub mod Prefixes
pub mod Keys
pub mod Passed
pub mod Found
