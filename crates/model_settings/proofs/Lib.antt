pub mod Before
mod Once
mod Paths
