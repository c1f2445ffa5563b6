pub mod Program
pub mod Timers
pub mod Refusal
pub mod Evictions
pub mod Chatter
