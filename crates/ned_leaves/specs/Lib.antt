pub mod Grammar
pub mod Answers
