pub mod State
pub mod Stores
pub mod Kept
pub mod Invariant
pub mod Laws
pub mod Unique
