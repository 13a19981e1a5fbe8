pub mod KnownWords
pub mod Unchanged
