-- What rows and records are, and what a buffer then holds (Records); a row with a detail (Detail).
pub mod Records
pub mod Detail
