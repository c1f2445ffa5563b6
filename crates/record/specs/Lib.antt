pub mod Kinds
pub mod Format
pub mod Forms
pub mod Refusals
pub mod Read
pub mod InForm
pub mod Answers
pub mod Walk
