pub mod ProcessOrder
