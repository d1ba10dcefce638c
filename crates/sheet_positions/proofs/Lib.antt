-- The laws of where reading is refused.
pub mod Steps
pub mod Exactly
pub mod Front
