-- The laws of numbers as bytes, and of little-endian bytes written over lent ones.
pub mod Ordered
pub mod Bytes
pub mod Stored
