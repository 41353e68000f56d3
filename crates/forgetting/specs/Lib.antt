-- Promise 3: calls one after the other (Calls), what it says of them (Forget), and what callers of the C boundary see (Seen).
pub mod Calls
pub mod Forget
pub mod Seen
