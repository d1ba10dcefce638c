-- The boundary sides of a polygon after repair.
pub mod Sides
pub mod Numbered
