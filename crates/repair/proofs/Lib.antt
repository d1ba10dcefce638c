-- The theorems of repair.
pub mod OneOwner
pub mod Kept
pub mod Filling
pub mod Giving
