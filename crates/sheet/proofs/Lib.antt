-- The theorems of reading.
pub mod Run
pub mod Sane
pub mod Laid
pub mod Shown
pub mod Counts
pub mod Rows
pub mod Opened
pub mod Closed
pub mod Onward
mod Reaching
pub mod Finish
pub mod Sized
pub mod Fit
pub mod Paid
pub mod Refusals
pub mod Answered
