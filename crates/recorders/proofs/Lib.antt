pub mod Options
pub mod Noted
pub mod Hearers
pub mod Reading
pub mod Unwanted
mod Wanting
