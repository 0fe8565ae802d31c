pub mod Changes
pub mod Items
