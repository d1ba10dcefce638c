-- A blob's envelope and the frame of the table.
pub mod Framed
