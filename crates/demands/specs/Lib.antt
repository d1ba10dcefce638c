-- What the demands speak of: document 01's table of refusals, the entries, the triangle or polygon that a sheet is refused for, what the
-- entries go by, and the index.
pub mod Refusals
pub mod Entries
pub mod Positions
pub mod Triangles
pub mod Polygons
pub mod Answers
pub mod Blobs
pub mod Points
pub mod Index
pub mod Rings
