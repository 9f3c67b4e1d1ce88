mod Numbers
mod Chains
mod Doubling
mod Merging
mod Mirrors
mod SubsetFacts
mod GroupFacts
mod SetSums
mod MaskLemmas
mod WorkedCases
mod LimitCases
pub mod Face
