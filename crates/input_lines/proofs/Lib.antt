pub mod Feeds
pub mod Reading
