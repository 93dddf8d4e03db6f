pub mod Logged
pub mod Views
