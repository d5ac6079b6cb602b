pub mod Looks
pub mod Showing
