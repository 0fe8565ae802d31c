pub mod Lists
mod Going
pub mod Notes
mod Back
