pub mod Lists
pub mod RowSets
