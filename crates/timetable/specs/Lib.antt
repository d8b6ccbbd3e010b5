pub mod Chains
pub mod Gathered
pub mod Order
pub mod Problem
pub mod Records
pub mod Solved
pub mod Timetable
