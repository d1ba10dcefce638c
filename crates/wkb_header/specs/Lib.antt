-- The header of a geometry.
pub mod Header
