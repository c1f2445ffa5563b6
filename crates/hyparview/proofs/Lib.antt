pub mod Laws
pub mod Opening
pub mod Asked
pub mod Making
pub mod Sides
