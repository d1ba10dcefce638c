-- The laws of the comparison of labels with counts.
pub mod Compared
