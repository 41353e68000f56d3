-- The writer of words: which bits of a word are a field and which are fixed (Layout), what is written from fields and read back (Write).
pub mod Layout
pub mod Write
