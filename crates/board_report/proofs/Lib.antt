mod CallFacts
mod WordCases
mod WordFacts
mod WorkedCases
