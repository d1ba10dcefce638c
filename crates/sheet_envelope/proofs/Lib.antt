-- The laws of the envelope.
pub mod Same
