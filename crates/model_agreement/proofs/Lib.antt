pub mod Agreed
pub mod Commons
pub mod Sameness
pub mod Modules
pub mod Named
pub mod Spared
pub mod Sure
mod Settings
