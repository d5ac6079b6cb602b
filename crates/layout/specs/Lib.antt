pub mod Bytes
pub mod Geometry
pub mod Kinds
pub mod Labels
pub mod Lawful
