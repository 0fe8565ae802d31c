pub mod Answers
pub mod Feeds
pub mod Limits
pub mod Lines
pub mod Parts
pub mod Waits
