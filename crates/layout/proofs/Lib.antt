pub mod Groups
pub mod Numbered
pub mod Labels
