-- The theorems of single rings and of turning them round.
pub mod Reverse
pub mod Areas
pub mod Turning
pub mod Examples
