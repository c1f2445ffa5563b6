pub mod Laws
pub mod Draws
pub mod Fresh
