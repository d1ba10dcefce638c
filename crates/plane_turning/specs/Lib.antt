-- The sharpest turn to the right.
pub mod Turning
