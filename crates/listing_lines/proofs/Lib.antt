-- The laws of the lines.
pub mod Lines
