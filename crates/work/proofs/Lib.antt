pub mod Bridge
pub mod Any
pub mod Uses
