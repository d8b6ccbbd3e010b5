mod Counts
mod Cuts
pub mod Picked
mod Pigeon
pub mod Readings
mod Scans
pub mod Settled
pub mod Traces
