pub mod Actions
pub mod Behaviour
pub mod Laws
pub mod Meaning
pub mod Names
pub mod Prompts
pub mod Values
pub mod Spelling
