-- The theorems of laying edges down.
pub mod Stores
pub mod Walk
pub mod Triangles
pub mod OneOutcome
