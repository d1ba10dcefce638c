-- The plane as document 01 speaks of it: points, ordered pairs and triangles, cutting edges, boundaries, members.
pub mod Points
pub mod Cuts
pub mod Boundaries
pub mod Members
pub mod Corners
pub mod Keys
