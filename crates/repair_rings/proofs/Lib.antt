-- The boundary sides of a set fall into rings.
pub mod Balance
pub mod Injective
pub mod Cycles
pub mod Earliest
pub mod Rings
pub mod Examples
