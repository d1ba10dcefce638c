-- Numbers in ascending order, each once.
pub mod Ascending
