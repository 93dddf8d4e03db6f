pub mod Readings
pub mod Seals
pub mod SealedFacts
