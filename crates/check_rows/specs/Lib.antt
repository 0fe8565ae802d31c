pub mod Example
pub mod Numbers
