-- The rings of boundary sides.
pub mod Rings
