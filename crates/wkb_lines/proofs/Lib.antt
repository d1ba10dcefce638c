-- The laws of lines in the binary form.
pub mod Lengths
pub mod Room
pub mod Examples
