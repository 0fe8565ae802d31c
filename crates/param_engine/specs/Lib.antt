pub mod Turns
pub mod Tables
pub mod Working
pub mod Steps
pub mod Edits
