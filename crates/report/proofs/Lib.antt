pub mod Lines
pub mod Steps
pub mod Keeping
pub mod Printing
pub mod Refused
