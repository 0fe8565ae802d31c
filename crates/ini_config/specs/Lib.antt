pub mod Edits
pub mod Meaning
pub mod Texts
