-- The laws of the whole root.
pub mod Newton
pub mod OnlyRoot
