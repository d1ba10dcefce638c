-- What bytes come to once they are judged, and how the code holds it.
pub mod Judged
pub mod Judging
pub mod Held
