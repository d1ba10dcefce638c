-- The theorems of writing: the round trip (Trip), how long a sheet is at most (Sized).
pub mod Patterns
mod Encoded
pub mod Normal
mod Measured
pub mod Sized
mod Read
pub mod Trip
pub mod Held
pub mod Given
pub mod Outcomes
pub mod Largest
pub mod Examples
