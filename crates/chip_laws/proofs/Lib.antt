pub mod Bits
pub mod Simulation
pub mod Follow
pub mod Rolls
pub mod Stays
pub mod Spoils
pub mod Apart
