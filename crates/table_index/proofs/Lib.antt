-- The laws of laying down and of looking up what was laid down.
pub mod Indexing
pub mod Noting
