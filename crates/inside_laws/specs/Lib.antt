pub mod Sound
pub mod Connected
