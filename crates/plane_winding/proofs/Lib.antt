-- Winding: round a point, and round the points of a triangle.
pub mod Winding
pub mod Belongs
