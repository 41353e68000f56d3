pub mod Rows
pub mod Unknown
pub mod States
pub mod Rust
pub mod Onward
pub mod Marking
pub mod Settle
pub mod Unique
