-- The theorems of boundary sides.
pub mod Bounding
pub mod Laying
