pub mod Ahead
pub mod Found
pub mod Exact
pub mod Fences
pub mod Going
pub mod Whole
pub mod Below
pub mod ReadRuns
