-- The theorems of the binary form.
pub mod Steps
pub mod Orders
pub mod Cases
pub mod Due
pub mod Reasons
pub mod Again
pub mod Complete
pub mod Allowed
