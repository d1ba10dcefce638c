-- The laws of writing blobs.
pub mod Trip
pub mod Given
