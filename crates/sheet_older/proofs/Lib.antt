-- The theorems of turning rings where they stand.
pub mod Places
pub mod Round
pub mod Ways
pub mod Walk
pub mod Sheets
