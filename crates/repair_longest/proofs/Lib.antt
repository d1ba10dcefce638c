-- The laws of lengths off held numbers.
pub mod Held
