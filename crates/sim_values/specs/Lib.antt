pub mod Counts
pub mod Dimensions
pub mod Limits
pub mod Memory
pub mod ModelFaults
pub mod Units
