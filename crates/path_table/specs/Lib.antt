pub mod Paths
pub mod Groups
