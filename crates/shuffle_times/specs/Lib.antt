pub mod Times
pub mod Histories
pub mod Claims
pub mod Table
