pub mod Injections
