pub mod Parts
pub mod Bytes
pub mod Round
pub mod Writing
pub mod Unique
