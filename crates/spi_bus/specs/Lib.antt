pub mod Behind
pub mod Traces
pub mod Views
pub mod Ways
