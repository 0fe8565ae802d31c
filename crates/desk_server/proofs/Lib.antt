pub mod Alike
pub mod Boxes
pub mod Hearing
pub mod Places
pub mod ServingTurns
pub mod Telling
pub mod Turning
pub mod Wanting
