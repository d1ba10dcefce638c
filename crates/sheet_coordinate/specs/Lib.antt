-- Which doubles are coordinates, as document 01 says it.
pub mod Coordinate
