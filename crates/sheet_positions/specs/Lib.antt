-- Where reading is refused, and what is at fault there.
pub mod Places
pub mod Faults
