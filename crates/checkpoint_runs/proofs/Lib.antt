pub mod Counting
pub mod Ends
pub mod Filling
pub mod Going
pub mod Onwards
pub mod Observing
pub mod Pausing
pub mod Leaving
pub mod Good
pub mod Shown
pub mod Whole
pub mod Standing
pub mod Back
pub mod Advancing
pub mod Few
pub mod Most
mod Unstarted
