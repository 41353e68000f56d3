-- The bench file: its bytes and when it is refused (File), its packets and words in order (Items), the reader over it (Reader).
pub mod File
pub mod Items
pub mod Reader
