pub mod Edited
pub mod Short
