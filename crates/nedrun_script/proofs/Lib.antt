pub mod Faults
pub mod Typing
