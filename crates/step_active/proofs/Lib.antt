pub mod Leaving
pub mod Entering
