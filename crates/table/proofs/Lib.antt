-- The theorems of the triangle table.
pub mod Sets
pub mod Frame
pub mod Connected
pub mod Rules
pub mod Nets
pub mod Shares
pub mod Reach
pub mod Faults
pub mod Bounds
