pub mod Checkpoints
pub mod Fields
pub mod Heads
