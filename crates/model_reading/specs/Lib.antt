pub mod Models
pub mod Faults
