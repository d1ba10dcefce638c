-- The laws of the owners of a triangle, and of the set that they fit in.
pub mod Bits
pub mod Owning
pub mod Owners
