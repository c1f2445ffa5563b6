pub mod Run
pub mod Place
pub mod Opened
