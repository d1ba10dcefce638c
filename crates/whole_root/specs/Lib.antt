-- The whole root.
pub mod Root
