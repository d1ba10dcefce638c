-- The laws of codes and of chains.
pub mod Looked
pub mod Chains
