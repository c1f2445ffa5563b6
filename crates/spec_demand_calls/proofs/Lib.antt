pub mod Memory
pub mod Tied
pub mod Timers
pub mod Refusal
pub mod Evictions
pub mod Draws
pub mod Chatter
