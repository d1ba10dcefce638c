-- Repair: overlaps settled, and gap regions given to a neighbour.
pub mod Repair
pub mod Ways
pub mod Giving
pub mod OneOwner
pub mod Alone
