-- From a sheet in numbers to its owner sets.
pub mod Owning
