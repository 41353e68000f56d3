pub mod Storing
pub mod Numbers
pub mod Steps
pub mod Unique
