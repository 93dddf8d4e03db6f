pub mod Shields
pub mod Tables
pub mod Shown
