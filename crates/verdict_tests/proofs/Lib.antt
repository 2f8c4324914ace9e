pub mod LongLine
pub mod ShortLine
