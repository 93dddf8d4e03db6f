pub mod Plains
pub mod Dumps
