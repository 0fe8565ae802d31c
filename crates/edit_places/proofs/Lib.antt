mod Common
mod Reached
