-- Calls on the numbers of a tracker: Calls is what they give, Storing what a word of each kind stores.
pub mod Calls
pub mod Storing
