pub mod Models
pub mod Runs
pub mod Texts
