pub mod Matched
pub mod Matches
pub mod PatternOf
pub mod Fault
pub mod Reading
pub mod Laws
pub mod Places
