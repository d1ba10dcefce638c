-- The laws that the writer's proofs cite.
pub mod Numbers
pub mod Bytes
pub mod Goes
pub mod Points
pub mod Levels
pub mod Emits
pub mod Wholes
pub mod Triangles
pub mod Counts
pub mod Gives
