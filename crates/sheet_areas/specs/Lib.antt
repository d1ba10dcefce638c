-- The double areas of what stands among held numbers.
pub mod Standing
