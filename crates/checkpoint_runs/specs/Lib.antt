pub mod Positions
pub mod Kept
pub mod Shown
pub mod Running
pub mod Telling
pub mod Observing
