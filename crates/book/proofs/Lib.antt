pub mod EachKind
pub mod Joined
