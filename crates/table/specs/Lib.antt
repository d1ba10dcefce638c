-- The triangle table as document 01 speaks of it: its frame, rules A, B and C, sets of its triangles.
pub mod Table
pub mod Sets
pub mod Sides
pub mod Opposites
