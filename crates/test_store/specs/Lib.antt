pub mod Copies
pub mod Reach
pub mod Store
pub mod Marked
pub mod Places
pub mod StoreInvariant
pub mod Truth
