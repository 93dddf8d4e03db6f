pub mod Held
pub mod Sound
pub mod Views
