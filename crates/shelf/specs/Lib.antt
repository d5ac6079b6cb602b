pub mod Answers
pub mod Fuses
pub mod Meaning
pub mod Plains
pub mod Relation
pub mod Runs
pub mod Shown
pub mod Trials
