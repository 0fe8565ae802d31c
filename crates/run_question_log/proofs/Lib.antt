pub mod Noted
pub mod Shorter
pub mod Same
pub mod Once
pub mod Keys
pub mod Known
