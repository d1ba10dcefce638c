-- The frame, and the table rules in their order, as the code answers them.
pub mod Framing
pub mod Checking
