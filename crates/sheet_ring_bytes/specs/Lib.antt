-- The closed lines of a polygon's boundary after repair.
pub mod Lines
pub mod Held
