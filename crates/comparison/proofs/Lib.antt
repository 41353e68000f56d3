pub mod Rows
pub mod Keeping
pub mod Looking
pub mod Printing
pub mod Same
pub mod Example
pub mod Never
