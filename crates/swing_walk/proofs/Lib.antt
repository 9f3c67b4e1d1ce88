mod Counting
mod Coalitions
mod PairLaws
mod BoardSets
mod Weights
mod Steps
mod Meeting
mod SizeLemmas
mod WinningPairs
mod WalkCases
mod WorkedCases
mod LimitCases
mod Routes
pub mod Face
