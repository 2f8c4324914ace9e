pub mod Command
pub mod Hello
pub mod Reply
pub mod Unopened
