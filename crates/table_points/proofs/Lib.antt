-- The points that a table covers, and the triangle of each.
pub mod Covered
pub mod Frames
pub mod Points
