-- What the mathematics above speaks of: equality of whole numbers, sums and counts over lists, net counts,
-- polynomial expressions.
pub mod Numbers
pub mod Sums
pub mod Polynomials
pub mod Tests
