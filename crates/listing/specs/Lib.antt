-- The printed listing.
pub mod Listing
pub mod Held
