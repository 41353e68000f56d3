pub mod Run
pub mod Loop
pub mod Words
pub mod Unique
pub mod QuietId
pub mod QuietIds
pub mod Runs
pub mod Going
