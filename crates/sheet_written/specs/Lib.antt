-- Writing: the limits that a sheet keeps, and its normal bytes.
pub mod Fits
pub mod Given
pub mod Normal
pub mod Examples
