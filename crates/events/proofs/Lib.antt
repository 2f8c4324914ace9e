pub mod Replicas
pub mod Values
pub mod AnySet
pub mod OneEvent
pub mod OpEvents
pub mod KeyEvents
pub mod ReadEach
pub mod Written
