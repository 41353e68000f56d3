-- What is kept of a word, part by part: absent and good (Kept), after a word, and what is told of the frame and the lanes (Stored).
pub mod Kept
pub mod Stored
