pub mod Each
pub mod Seats
pub mod Taking
