pub mod Answering
pub mod Homes
pub mod Most
pub mod Sharing
pub mod Windows
