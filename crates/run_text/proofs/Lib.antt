pub mod Written
pub mod Spelled
pub mod Laws
