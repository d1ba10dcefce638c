-- The envelope of a GeoPackage geometry.
pub mod Envelope
pub mod Written
