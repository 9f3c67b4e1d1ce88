pub mod KeptSheets
pub mod FirstFaults
pub mod LegalAudits
pub mod FirstPlaces
pub mod WorkedCases
mod LimitCases
