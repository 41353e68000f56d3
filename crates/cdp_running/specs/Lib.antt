-- The tracker: what it holds and its invariant (Tracker), how it is after a word (Next), one word call (Word), the numbers of its answer (Answer).
pub mod Told
pub mod Tracker
pub mod Next
pub mod Word
pub mod Answer
