-- The laws of hanging sides in chains.
pub mod Linking
