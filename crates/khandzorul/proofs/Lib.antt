pub mod Exports
pub mod Laws
pub mod Unique
pub mod Lanes
