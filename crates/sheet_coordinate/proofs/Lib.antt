-- The laws of doubles that equal whole numbers, and what the definition of a coordinate means.
pub mod Doubles
pub mod Meaning
