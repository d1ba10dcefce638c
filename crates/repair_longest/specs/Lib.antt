-- The longest shared boundary, as the code finds it.
pub mod Held
