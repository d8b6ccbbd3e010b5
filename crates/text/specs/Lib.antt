pub mod Fields
pub mod Lines
pub mod Number
pub mod Put
pub mod Reads
