pub mod Known
pub mod Scopes
pub mod Example
