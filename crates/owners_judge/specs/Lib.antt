-- What the code that judges a polygon is given, and how its answer shows the judging.
pub mod Judged
pub mod Preparing
