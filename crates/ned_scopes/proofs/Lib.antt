pub mod KnownLaws
pub mod PlainLaws
pub mod ExampleLaws
