pub mod Hex
pub mod Items
pub mod Fields
pub mod Event
