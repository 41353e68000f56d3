-- What benchcheck prints: lines (Text), all of a file (File), and a report that prints it step by step (Report).
pub mod Text
pub mod File
pub mod Report
