-- Texts in ASCII at the front of a buffer (Text), and printing them step by step (Steps).
pub mod Text
pub mod Steps
