-- 01, "Records, in the order given": the rows of a TDH of each of its three kinds, and the interval; 02, ticket 10: intervals one after the other.
pub mod Tdh
pub mod Chain
