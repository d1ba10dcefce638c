-- The laws of fields.
pub mod Remains
pub mod Doubles
pub mod Fields
