pub mod Storing
pub mod Kept
pub mod Packets
pub mod Lent
pub mod Unique
