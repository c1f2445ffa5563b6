pub mod Counted
pub mod Joins
pub mod Passes
