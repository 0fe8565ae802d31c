pub mod Boxes
pub mod Served
pub mod Serving
