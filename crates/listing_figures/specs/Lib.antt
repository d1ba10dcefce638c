-- The figures of the listing.
pub mod Figures
pub mod Standings
