-- Edges with an end off the table.
pub mod Trimming
