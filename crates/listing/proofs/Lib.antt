-- The laws of the listing.
pub mod Front
pub mod Sheet
pub mod Figures
