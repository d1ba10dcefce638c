-- The theorems of ownership.
pub mod Carried
pub mod Polygons
pub mod Examples
