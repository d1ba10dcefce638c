-- What the blob writer's code reads off the numbers.
pub mod Corners
