pub mod Chunks
pub mod Order
pub mod Pack
pub mod Ways
pub mod Kept
