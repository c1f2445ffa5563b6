pub mod Data
pub mod Held
pub mod Maps
