pub mod Data
pub mod Maps
