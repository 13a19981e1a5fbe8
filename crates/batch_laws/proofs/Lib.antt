pub mod Logs
pub mod Numbered
pub mod Others
pub mod Right
pub mod Starts
pub mod Steps
pub mod Ticked
