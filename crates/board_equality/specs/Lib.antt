pub mod Sides
pub mod Fences
pub mod Pairs
pub mod Builds
pub mod Law
