-- The lines of the listing.
pub mod Lines
pub mod Printing
