pub mod Drawn
pub mod Reused
pub mod Unchanged
pub mod Waiting
