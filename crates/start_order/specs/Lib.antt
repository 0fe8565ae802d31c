pub mod Priorities
pub mod Waiting
