-- The side that is met first anticlockwise round a corner.
pub mod Ends
pub mod Places
pub mod Framed
pub mod Sweep
pub mod Following
pub mod Numbers
pub mod Rings
