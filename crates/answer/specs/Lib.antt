pub mod Faults
pub mod Numbers
