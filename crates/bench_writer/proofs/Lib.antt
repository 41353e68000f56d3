pub mod Putting
pub mod Shifting
pub mod Adding
pub mod Entries
pub mod Filed
pub mod Holding
pub mod Unique
