pub mod Zeros
pub mod Codecs
pub mod Arming
