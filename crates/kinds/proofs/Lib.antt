pub mod Spreading
pub mod Thens
