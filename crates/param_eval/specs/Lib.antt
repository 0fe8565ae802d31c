pub mod Wholes
pub mod Operators
pub mod Combinations
pub mod References
pub mod Values
pub mod Evaluating
pub mod Laws
