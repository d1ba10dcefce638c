-- The laws of reading in a mode.
pub mod Modes
pub mod Endings
pub mod Outcome
