pub mod Played
pub mod Taken
pub mod Lost
pub mod Window
pub mod Line
pub mod Examples
