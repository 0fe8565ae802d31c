pub mod Asking
pub mod Chains
mod Creations
mod Joins
mod Levels
pub mod Loops
mod Within
