-- The theorems of the plane.
pub mod Points
pub mod Boundaries
pub mod Between
pub mod Chains
pub mod Line
pub mod Cuts
pub mod Corners
pub mod Ways
pub mod Keys
