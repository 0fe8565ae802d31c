pub mod Entries
pub mod Noting
pub mod Going
pub mod Order
