pub mod Captures
pub mod Images
pub mod Requests
pub mod Runs
