pub mod Clerk
pub mod Wire
pub mod Reaper
pub mod Maker
