pub mod OneKey
pub mod BadKeys
