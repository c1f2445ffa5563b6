pub mod Arms
pub mod Laws
