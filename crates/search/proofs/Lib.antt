pub mod Blanks
pub mod Layers
pub mod Passes
mod Runs
