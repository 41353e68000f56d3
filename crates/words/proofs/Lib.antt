pub mod Bits
pub mod Load
pub mod Listing
pub mod Unique
pub mod Worst
pub mod Tests
pub mod LittleEndian
pub mod Buffer
