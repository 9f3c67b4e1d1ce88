mod Inputs
mod WorkedCases
pub mod Face
