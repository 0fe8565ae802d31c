pub mod Lines
pub mod Keyed
pub mod Insides
pub mod Reading
pub mod Answering
pub mod ClassExamples
pub mod Kept
