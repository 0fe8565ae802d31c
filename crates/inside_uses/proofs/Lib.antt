mod Passing
mod Blind
pub mod Walk
mod Ends
mod Parts
pub mod Values
