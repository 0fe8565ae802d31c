pub mod Standings
pub mod Created
pub mod Tables
