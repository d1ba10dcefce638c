-- Gap regions, and gap triangles met one after another.
pub mod Regions
pub mod Spreading
