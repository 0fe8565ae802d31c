pub mod Taken
pub mod Written
pub mod Header
pub mod Fields
pub mod ScalarText
pub mod VectorText
pub mod Rising
pub mod Sections
