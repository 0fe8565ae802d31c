pub mod Uses
pub mod Parts
