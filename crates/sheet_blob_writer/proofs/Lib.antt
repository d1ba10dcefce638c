-- The table off the numbers form, and the blob's bytes over lent ones.
pub mod Table
pub mod Outcomes
