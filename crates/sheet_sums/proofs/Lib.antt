-- The theorems of summing up along a ring.
pub mod Summing
