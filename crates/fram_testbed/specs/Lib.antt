pub mod Transfers
pub mod Ways
