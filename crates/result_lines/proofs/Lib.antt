pub mod Writing
pub mod LineLemmas
pub mod TextLemmas
pub mod Rising
pub mod SectionLaws
pub mod HeaderLaws
pub mod PartDigits
