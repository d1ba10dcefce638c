-- The laws of counting.
pub mod Ranked
pub mod Walked
pub mod Counted
pub mod Found
pub mod Pieces
pub mod OneOutcome
