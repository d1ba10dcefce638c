-- The theorems of gap regions.
pub mod Regions
pub mod Spreading
