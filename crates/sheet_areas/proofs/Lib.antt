-- The theorems of summing up double areas.
pub mod Walk
pub mod Sheets
