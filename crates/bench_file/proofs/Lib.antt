pub mod Checking
pub mod Finding
pub mod Known
pub mod Reading
pub mod Unique
