pub mod Levels
pub mod Loops
pub mod Walks
