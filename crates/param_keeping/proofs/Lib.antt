pub mod Places
pub mod Kept
pub mod Added
mod Finding
mod Inserting
mod Same
pub mod Steps
mod Room
