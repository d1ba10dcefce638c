-- Turning the rings of a sheet in numbers where they stand.
pub mod Standing
