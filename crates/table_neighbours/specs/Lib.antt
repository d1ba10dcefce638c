-- The neighbours of triangles, kept beside the table.
pub mod Neighbours
pub mod Held
