mod EndFacts
mod DeskFacts
mod ReplayFacts
mod TraceFacts
mod ScheduleFacts
mod ScheduleCases
mod WorkedCases
mod RunCases
pub mod Face
