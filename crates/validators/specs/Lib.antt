-- 01, "Records, in the order given": the rows of each kind of word but the TDH, in 01's order.
pub mod Ihw
pub mod Tdt
pub mod Ddw
pub mod DataWords
