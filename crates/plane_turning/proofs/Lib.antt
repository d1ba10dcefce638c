-- Rays from a corner, and the side that follows.
pub mod Rays
pub mod Sweeping
pub mod Following
pub mod Examples
