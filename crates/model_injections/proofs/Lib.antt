pub mod Turns
pub mod Left
