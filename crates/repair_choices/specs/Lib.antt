-- The choices for gap regions.
pub mod Choices
pub mod Choosing
pub mod Adding
