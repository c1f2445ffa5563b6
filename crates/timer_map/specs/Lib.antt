pub mod Entries
pub mod Words
pub mod Calls
