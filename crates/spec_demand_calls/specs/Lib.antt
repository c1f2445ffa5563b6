pub mod Memory
pub mod Timers
pub mod Refusal
pub mod Evictions
pub mod Chatter
