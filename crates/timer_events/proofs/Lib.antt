pub mod Inserting
pub mod Events
pub mod Taking
pub mod RoundTrip
pub mod History
pub mod Accepted
pub mod Tied
