-- The writer's walk over the numbers: what it writes for them, level by level.
pub mod Emit
pub mod Walks
