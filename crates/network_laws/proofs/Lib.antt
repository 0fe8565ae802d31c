pub mod Ends
pub mod Taking
pub mod Losing
pub mod Windowed
pub mod Hearing
pub mod Lined
pub mod Linked
