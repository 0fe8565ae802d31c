pub mod Firsts
pub mod KeyLaws
pub mod Noted
pub mod NumberLaws
pub mod SectionLaws
