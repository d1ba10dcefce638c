-- Who owns a triangle: the judging of one member and of all polygons, and document 01's starred examples.
pub mod Judging
pub mod Owners
pub mod Examples
