-- Grid points of a table.
pub mod Points
