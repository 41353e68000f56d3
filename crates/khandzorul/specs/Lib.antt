-- The C boundary: Answer is the answers as they cross, Calls what each exported call does to the arrays that it is lent, Status what the readers of
-- lane status answer. What the writers of words do is defined in the crate writer.
pub mod Answer
pub mod Calls
pub mod Status
