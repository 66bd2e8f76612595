pub mod Rights
pub mod Chains
