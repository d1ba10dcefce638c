-- Rings laid down side by side, and one behind the other.
pub mod Members
pub mod Walking
pub mod Ringing
