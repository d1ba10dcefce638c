-- The sides of a table made ready to be looked up.
pub mod Noting
