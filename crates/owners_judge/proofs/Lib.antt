-- The laws of judging a polygon by counts and labels.
mod Labels
pub mod Judged
