pub mod Period
pub mod Orbits
pub mod Counted
pub mod Chain
