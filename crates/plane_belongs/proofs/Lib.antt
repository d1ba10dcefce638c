-- What the sides of a triangle keep, off held corners.
pub mod Kept
