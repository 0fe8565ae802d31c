pub mod Asks
pub mod Heard
