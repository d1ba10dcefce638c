-- The sides that are touched, and labels that spread from them.
pub mod Spreading
