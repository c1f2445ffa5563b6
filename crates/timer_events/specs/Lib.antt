pub mod Records
pub mod Events
pub mod History
pub mod Claims
