pub mod Idle
pub mod Recent
