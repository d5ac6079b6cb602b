pub mod Drills
pub mod Ranges
pub mod Schedules
