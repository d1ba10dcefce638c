-- The laws of the choices for gap regions.
pub mod Lists
pub mod Largest
pub mod Longest
pub mod Rearranged
pub mod Adding
pub mod Ways
