mod Replies
pub mod PlanFacts
pub mod WorkFacts
pub mod OutcomeFacts
pub mod AuditFacts
pub mod ServeFacts
pub mod WorkedCases
mod PlanCases
mod WorkCases
