pub mod Constants
pub mod Keys
pub mod Meaning
pub mod Names
pub mod Options
pub mod Reasons
pub mod Texts
