pub mod Records
pub mod Questions
pub mod Gates
pub mod Hops
pub mod Answers
