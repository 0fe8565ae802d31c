pub mod Runs
pub mod Scenes
pub mod Posing
pub mod Found
pub mod Going
pub mod Weights
pub mod Same
pub mod PlaceExamples
