pub mod Ruling
pub mod Withdrawing
