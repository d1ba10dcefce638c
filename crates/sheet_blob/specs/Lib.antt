-- The GeoPackage geometry blob: its grammar by itself, the reading of its header, and what can be at fault there.
pub mod Blob
pub mod Opening
pub mod Faults
