pub mod Plans
pub mod Work
pub mod Outcomes
pub mod Serving
