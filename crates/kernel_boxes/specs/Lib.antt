pub mod Seats
pub mod Saved
pub mod Staying
