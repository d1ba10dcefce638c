-- The laws of edges with an end off the table.
pub mod Loose
pub mod Ends
pub mod Trims
pub mod Stepped
