pub mod Bytes
pub mod Folding
