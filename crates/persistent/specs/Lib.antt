pub mod Trees
pub mod TreeFalls
pub mod Eights
pub mod Rows
pub mod Shown
