pub mod PageSpan
pub mod Permission
pub mod Runs
pub mod Written
