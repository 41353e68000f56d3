-- A tracker's memory: Memory is what is read of it and stored in it, Holds what is known of numbers between the stores of a word. No contract of an exported
-- function cites them.
pub mod Memory
pub mod Holds
