pub mod Different
pub mod Events
pub mod Counts
pub mod States
