-- A stage of the road from bytes to answers, and the one sentence that all entries share.
pub mod Stages
pub mod Answered
pub mod Refusals
pub mod Told
