pub mod BlankLaws
pub mod EntryLaws
pub mod KeyLaws
pub mod OptionLaws
