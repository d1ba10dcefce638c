-- Sides by their codes, and looked up by them.
pub mod Numbered
pub mod Codes
pub mod Chains
