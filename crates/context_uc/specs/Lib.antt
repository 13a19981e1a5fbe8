pub mod Runs
pub mod Same
pub mod Takes
pub mod Views
