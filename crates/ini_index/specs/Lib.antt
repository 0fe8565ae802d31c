pub mod Entries
pub mod Keys
pub mod Indexed
pub mod IndexOf
