pub mod Edited
pub mod Steps
