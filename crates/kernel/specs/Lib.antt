pub mod Seats
pub mod Parts
pub mod Kernels
pub mod Calls
pub mod Looks
pub mod Setups
pub mod Starts
