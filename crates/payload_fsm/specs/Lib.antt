-- The state machine: Kinds are what a word is taken as, States the numbers of the states, Step is 01's table, Rust the Rust's events, Settle the
-- words that settle any state.
pub mod Kinds
pub mod States
pub mod Step
pub mod Rust
pub mod Settle
