-- The laws of ascending numbers.
pub mod Ascending
pub mod Moves
mod Near
