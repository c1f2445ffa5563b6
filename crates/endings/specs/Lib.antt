pub mod Events
pub mod Ends
pub mod Steps
