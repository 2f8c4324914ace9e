pub mod Products
pub mod Taking
