pub mod Grammar
pub mod ExpressionText
pub mod Spelling
