pub mod Blank
pub mod Nodes
pub mod Write
