-- The laws of counting edges at once.
pub mod Direct
