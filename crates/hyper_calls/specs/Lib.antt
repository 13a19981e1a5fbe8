pub mod Exchange
pub mod Outcomes
pub mod Reading
