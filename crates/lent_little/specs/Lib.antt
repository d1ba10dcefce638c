-- Numbers as bytes in either byte order; the bytes of numbers, owner sets and sides.
pub mod Ordered
pub mod Bytes
pub mod Held
pub mod Places
