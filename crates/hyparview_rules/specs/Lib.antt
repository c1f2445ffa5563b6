pub mod Pack
pub mod Ok
