pub mod Devices
pub mod Stops
