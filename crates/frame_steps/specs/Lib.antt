pub mod Counted
pub mod Plays
pub mod Rows
