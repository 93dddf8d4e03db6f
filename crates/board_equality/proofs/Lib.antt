pub mod Sides
pub mod Whole
