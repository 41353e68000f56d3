pub mod Edges
pub mod Files
pub mod WholeCase
