pub mod Book
pub mod Held
pub mod Limits
pub mod Names
