pub mod Calls
pub mod Reader
