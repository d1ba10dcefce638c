-- The triangles round a corner, the sides on the frame, and that no corner is strictly inside a side.
pub mod Turned
pub mod Fans
pub mod Hull
pub mod Straight
