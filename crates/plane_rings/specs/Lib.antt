-- One ring: its double area, that it is closed, and turning it round where it goes the wrong way.
pub mod Rings
pub mod Turning
pub mod Directed
pub mod Closed
pub mod Corners
