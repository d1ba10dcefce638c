-- The laws of a sheet without its polygons.
pub mod Bare
