mod Answering
mod Counts
mod Holds
