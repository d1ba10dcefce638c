-- Reading a sheet from bytes by steps; the sheet that was read, and a sheet as the code holds it.
pub mod Reading
pub mod Going
pub mod Behind
pub mod Rings
pub mod Read
pub mod Held
