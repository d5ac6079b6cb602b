pub mod Homes
pub mod Needs
pub mod Rows
