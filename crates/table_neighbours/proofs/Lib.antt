-- The laws of the neighbours kept beside a table.
pub mod Same
pub mod Neighbours
