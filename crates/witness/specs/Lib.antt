pub mod Calls
pub mod Orders
pub mod Taking
pub mod Requirements
pub mod Statuses
pub mod Placing
pub mod KeyOrders
