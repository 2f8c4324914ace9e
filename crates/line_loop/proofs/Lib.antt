pub mod Appending
pub mod Cutting
pub mod LiveReads
pub mod OneCut
pub mod Refusing
pub mod Results
pub mod Running
