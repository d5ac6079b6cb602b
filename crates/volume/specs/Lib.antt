pub mod TakingUp
pub mod Volumes
