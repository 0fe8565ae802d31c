pub mod Changes
pub mod Common
pub mod Known
pub mod Models
pub mod Narrowing
pub mod Same
