pub mod Bytes
pub mod Folds
