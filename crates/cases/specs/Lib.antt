pub mod LimitValues
pub mod Worked
