-- The boundary side that follows, by number.
pub mod Follower
