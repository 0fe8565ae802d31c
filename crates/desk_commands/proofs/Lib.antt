pub mod Asking
pub mod Parting
pub mod Payloads
