-- The lengths of edges.
pub mod Lengths
