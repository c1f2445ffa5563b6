pub mod Chances
pub mod Equal
pub mod Section
