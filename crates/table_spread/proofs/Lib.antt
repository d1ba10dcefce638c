-- The laws of labels that spread.
pub mod TouchedSides
pub mod Spreading
pub mod Sets
