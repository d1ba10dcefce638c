-- The laws of what the entries come to.
pub mod Outcomes
pub mod Position
pub mod Rings
pub mod Unwritten
pub mod Judged
pub mod Point
pub mod Sized
pub mod Index
