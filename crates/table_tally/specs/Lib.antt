-- Edges that are counted at once.
pub mod Direct
