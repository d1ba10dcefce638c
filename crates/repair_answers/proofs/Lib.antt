-- The laws of what is answered after repair.
pub mod After
