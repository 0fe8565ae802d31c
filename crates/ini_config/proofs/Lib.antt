pub mod EditLaws
pub mod EditedLines
pub mod MeaningLaws
pub mod PieceLaws
pub mod SectionLaws
