-- Two bench files compared: what is compared and what differs (Compare), what is printed (Text), and a listing that prints it step by step (Listing).
pub mod Compare
pub mod Text
pub mod Listing
