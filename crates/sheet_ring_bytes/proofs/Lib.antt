-- The laws of closed lines over lent bytes.
pub mod Putting
pub mod Standing
pub mod Sized
