-- What is answered after repair.
pub mod Answers
pub mod Held
