-- A sheet made of the rings after repair.
pub mod Clean
