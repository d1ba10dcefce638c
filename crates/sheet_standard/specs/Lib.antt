-- Which of the standard's trees are sheets within document 01's limits.
pub mod Limits
