pub mod Answers
pub mod Devices
pub mod Stops
