pub mod Lookups
pub mod Looks
pub mod Created
pub mod Upcoming
pub mod Positions
pub mod Places
pub mod Modules
pub mod Walks
