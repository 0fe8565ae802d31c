pub mod Folders
pub mod Given
pub mod Whole
