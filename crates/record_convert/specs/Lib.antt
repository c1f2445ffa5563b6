pub mod Convert
pub mod Walk
