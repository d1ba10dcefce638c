-- What each entry comes to.
pub mod Entries
