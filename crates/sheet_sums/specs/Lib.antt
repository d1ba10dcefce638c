-- The double area of a ring that stands among held numbers.
pub mod Standing
