-- The kinds of geometry, and which geometry stands at a place.
pub mod Kinds
pub mod Types
