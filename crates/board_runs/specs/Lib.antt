pub mod Notes
pub mod Replays
pub mod Schedules
pub mod Traces
pub mod Writing
pub mod Desks
pub mod Ended
