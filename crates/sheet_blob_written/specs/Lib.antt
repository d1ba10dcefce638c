-- Writing a blob: its normal bytes, and what the writer is given.
pub mod Normal
pub mod Given
