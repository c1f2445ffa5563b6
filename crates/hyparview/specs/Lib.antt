pub mod Handled
pub mod Taken
pub mod Made
pub mod Queries
pub mod Room
