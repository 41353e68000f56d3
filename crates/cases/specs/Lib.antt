-- What 01 computes by hand: its rows at the edges as a table (Edges), and the bytes of its whole case (WholeCase).
pub mod Edges
pub mod WholeCase
