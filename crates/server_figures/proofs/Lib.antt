pub mod Ranges
pub mod Chains
