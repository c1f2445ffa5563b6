pub mod Traffic
pub mod Open
pub mod Claims
