-- The sides of a table hung in chains.
pub mod Linking
