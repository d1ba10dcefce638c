-- The edges of one polygon, laid down as pairs of corners off the numbers form.
pub mod Standing
