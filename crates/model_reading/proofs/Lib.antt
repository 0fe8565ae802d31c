pub mod Accepting
pub mod Reading
