pub mod Elements
pub mod Packing
pub mod Marks
pub mod Listing
pub mod Looking
