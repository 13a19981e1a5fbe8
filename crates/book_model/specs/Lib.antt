pub mod Below
pub mod Kept
pub mod Shared
pub mod Steps
