pub mod Awaiting
pub mod Comings
pub mod Firsts
pub mod Insides
pub mod Keeping
pub mod Reaching
