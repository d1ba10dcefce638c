-- Lines in the binary form.
pub mod Lines
pub mod Room
