pub mod Pushes
pub mod Reading
pub mod Spelling
