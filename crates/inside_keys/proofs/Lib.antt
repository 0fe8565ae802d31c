pub mod Lacking
pub mod Literals
