pub mod Below
pub mod Claims
pub mod Copied
pub mod Counted
pub mod Shelf
pub mod Sound
