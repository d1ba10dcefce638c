-- The triangle of a point, off the held numbers.
pub mod Finding
