pub mod Setups
pub mod Ways
