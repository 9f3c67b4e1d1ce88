pub mod BoardLaw
pub mod WorkedCases
mod LimitCases
pub mod HalfLemmas
pub mod Bounds
pub mod RowLemmas
pub mod TallyLemmas
pub mod IndicesLemmas
