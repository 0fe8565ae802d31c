pub mod Types
pub mod Flat
pub mod Channels
pub mod Clashes
pub mod WellFormed
