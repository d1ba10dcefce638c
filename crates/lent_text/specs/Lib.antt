-- The text of the listing.
pub mod Text
pub mod Putting
