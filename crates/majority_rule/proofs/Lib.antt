mod MajorityLemmas
mod WorkedCases
pub mod Face
