pub mod Laws
pub mod Done
pub mod Nine
pub mod Written
