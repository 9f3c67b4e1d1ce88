mod ReadingFacts
mod WorkedCases
