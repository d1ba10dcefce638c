-- The theorems of a sheet with its rings turned.
pub mod Turned
pub mod Fits
pub mod Trip
pub mod Sized
