-- The binary form of OGC Simple Features as document 01 reads it: the steps of reading, and the grammar by itself.
pub mod Places
pub mod Steps
pub mod Faults
pub mod Standard
