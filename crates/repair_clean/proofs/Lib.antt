-- The rings after repair are carried by the triangles owned, and a sheet made of them is clean.
pub mod Rings
pub mod Clean
pub mod Sheet
