pub mod Products
pub mod Merge
pub mod Locality
pub mod SetAside
pub mod Joins
pub mod MoreStatuses
pub mod BadKeys
pub mod OneKeyStatus
