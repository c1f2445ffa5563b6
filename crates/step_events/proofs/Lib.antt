pub mod Joining
pub mod Clearing
pub mod Leaving
pub mod Pins
pub mod Own
