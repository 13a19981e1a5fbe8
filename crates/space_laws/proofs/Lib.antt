pub mod Counts
pub mod Rows
pub mod Spans
pub mod Stretches
