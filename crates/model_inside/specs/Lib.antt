pub mod Built
pub mod Sized
pub mod Hops
