pub mod Keys
pub mod Logging
