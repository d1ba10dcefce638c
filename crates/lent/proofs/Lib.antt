-- The laws of stages, of answers and of bytes written over lent ones.
pub mod Stages
pub mod Answered
pub mod Refusals
