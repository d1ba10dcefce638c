-- The laws of checking a table.
pub mod RuleC
pub mod Framing
pub mod Faults
mod Outlines
