-- The laws of the road from bytes to a judged sheet, and of judged sheets.
pub mod Stages
pub mod Judging
pub mod Read
pub mod Repaired
pub mod Ways
pub mod Standing
pub mod Sides
pub mod OneOutcome
