pub mod Piles
pub mod Dumps
