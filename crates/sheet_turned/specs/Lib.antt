-- A sheet of the older edition, with its rings turned.
pub mod Turned
pub mod Rings
