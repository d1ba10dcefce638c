-- Reading in a mode: the present edition or the older one, the sheet by itself or in a blob.
pub mod Modes
pub mod Held
