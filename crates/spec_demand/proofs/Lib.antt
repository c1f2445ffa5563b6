pub mod Program
pub mod Draws
pub mod Tied
pub mod Timers
pub mod Refusal
pub mod Evictions
pub mod Chatter
