pub mod Counts
pub mod Carrying
pub mod Turns
pub mod Spent
pub mod OfElements
pub mod OfEnds
pub mod OfSubmodules
pub mod OfItems
