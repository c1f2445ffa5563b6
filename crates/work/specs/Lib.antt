pub mod Run
pub mod Work
