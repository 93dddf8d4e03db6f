pub mod ByDivision
pub mod Laws
