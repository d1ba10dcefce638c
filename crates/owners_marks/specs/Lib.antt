-- The owners of a triangle, by number; and as one 64-bit set.
pub mod Marks
pub mod Listed
pub mod Sets
