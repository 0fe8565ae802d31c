pub mod Over
pub mod Spots
mod Putting
