-- The rings of boundary sides by number.
pub mod Walk
