-- The laws of figures.
pub mod Totals
pub mod Measuring
