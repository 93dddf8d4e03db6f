pub mod Tables
pub mod Covers
pub mod Through
