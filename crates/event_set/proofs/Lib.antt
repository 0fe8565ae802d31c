pub mod Order
pub mod Keys
pub mod Sets
pub mod Firsts
pub mod Slots
pub mod Modules
pub mod Dropping
