-- A payload call, and data words that give no record (Quiet, which serves the code alone).
pub mod Answer
pub mod Payload
pub mod Quiet
