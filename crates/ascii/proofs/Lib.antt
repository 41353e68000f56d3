pub mod Decimal
pub mod Gathering
pub mod Putting
pub mod Steps
pub mod Unique
