-- A tracker as numbers: Array is what stands where, and which numbers are a tracker's. Place is the names of the places, Read what the numbers say and the
-- tests of them, Good what is known of numbers that passed them. These three serve the code alone: no contract of an exported function cites them.
pub mod Place
pub mod Array
pub mod Read
pub mod Good
