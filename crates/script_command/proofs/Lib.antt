pub mod Answering
pub mod Elements
pub mod KindsInHello
pub mod OneReply
pub mod Opening
