pub mod Positions
pub mod Told
pub mod Growing
mod Living
mod Namesakes
pub mod Lasting
mod Starts
mod Unstarted
mod Places
mod Listed
mod Ranges
mod Below
mod Found
