pub mod Over
pub mod Asking
pub mod Spots
pub mod Absorbing
