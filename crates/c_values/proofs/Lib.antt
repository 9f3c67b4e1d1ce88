mod RowLemmas
mod OpeningFacts
mod CountCases
mod WorkedCases
pub mod Face
