-- The laws of the blob's header.
pub mod Cases
pub mod Refusals
pub mod Grammar
