pub mod Reading
pub mod Laws
pub mod Meant
pub mod Listed
pub mod ByRules
pub mod Traces
