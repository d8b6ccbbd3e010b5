pub mod Calls
pub mod Closing
pub mod Plans
pub mod Refusals
