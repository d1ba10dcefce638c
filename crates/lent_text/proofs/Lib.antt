-- The laws of text put together.
pub mod Texts
