pub mod Holders
pub mod Plays
pub mod Rows
pub mod Steps
