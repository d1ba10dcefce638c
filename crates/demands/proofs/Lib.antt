-- The demands.
pub mod Total
pub mod Reading
pub mod Writing
pub mod Answers
pub mod Single
pub mod Neighbours
pub mod Index
pub mod Positions
pub mod Areas
pub mod Points
pub mod Older
pub mod Blobs
pub mod Room
pub mod Carried
pub mod Repair
pub mod Rings
pub mod RingRoom
pub mod Books
pub mod Examples
mod Stages
mod Envelopes
mod Order
mod Table
mod Sets
mod After
mod Listed
