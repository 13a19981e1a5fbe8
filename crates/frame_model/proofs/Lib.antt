pub mod Counts
pub mod Covers
pub mod NameCounts
pub mod Opening
pub mod Owners
pub mod Parts
pub mod Reach
pub mod Rules
