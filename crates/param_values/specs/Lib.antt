pub mod Kinds
pub mod Settings
pub mod Values
pub mod Scenes
