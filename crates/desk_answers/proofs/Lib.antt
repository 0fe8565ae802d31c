pub mod Forgoing
pub mod Refusing
