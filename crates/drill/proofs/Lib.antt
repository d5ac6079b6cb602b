pub mod Scheduling
