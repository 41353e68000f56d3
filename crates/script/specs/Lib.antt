-- A bench file from lines of text: numbers (Numbers), the parts of a line (Tokens), what a line says (Line), the word it asks for (Asked), what it does to
-- the file (Taking), what a whole text comes to (Outcome), and how it is read in pieces (Feeding).
pub mod Numbers
pub mod Tokens
pub mod Line
pub mod Asked
pub mod Taking
pub mod Outcome
pub mod Feeding
