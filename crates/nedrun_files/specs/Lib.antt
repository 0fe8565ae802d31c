pub mod Devices
pub mod Paths
pub mod Stops
