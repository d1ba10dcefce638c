-- Pairs that come one by one and cancel with their reverse.
pub mod Loose
