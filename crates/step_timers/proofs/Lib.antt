pub mod Asked
pub mod Shuffles
