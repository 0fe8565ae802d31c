pub mod Commands
pub mod Injections
pub mod Numbers
pub mod Words
