-- What is at a point, after repair.
pub mod Point
pub mod Held
