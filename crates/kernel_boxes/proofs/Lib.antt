pub mod Keeping
pub mod Seating
pub mod Saving
pub mod Loading
pub mod Leaving
pub mod Going
