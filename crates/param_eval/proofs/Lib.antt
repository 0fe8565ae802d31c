mod Powers
mod Quotients
mod Shifts
mod Tasks
mod Answering
