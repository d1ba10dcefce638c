-- Sides gone along one after another.
pub mod Along
