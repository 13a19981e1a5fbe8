pub mod FilePages
pub mod Runs
pub mod Written
