-- The laws of a table's corners and its frame.
pub mod Corners
