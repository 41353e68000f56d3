pub mod Replace
pub mod Good
