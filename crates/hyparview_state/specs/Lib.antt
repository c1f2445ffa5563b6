pub mod Layout
pub mod Unpack
pub mod Work
