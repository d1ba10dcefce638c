-- The signs of whole numbers, and proofs by going through all signs.
pub mod Signs
pub mod Each
pub mod Cancelling
