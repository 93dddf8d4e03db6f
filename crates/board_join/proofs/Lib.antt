pub mod Halves
pub mod Parted
