pub mod Loops
pub mod Hints
pub mod Three
pub mod Marks
pub mod Tests
