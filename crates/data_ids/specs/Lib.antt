-- Data ids, and the lanes and inputs behind them.
pub mod DataIds
