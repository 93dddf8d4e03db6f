pub mod OnBoard
pub mod Parked
pub mod FixedChip
pub mod DumpsRead
