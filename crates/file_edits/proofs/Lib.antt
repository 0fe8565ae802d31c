pub mod ChangeLaws
pub mod NestedLaws
