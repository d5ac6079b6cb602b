pub mod Empty
pub mod Valued
