pub mod Conversions
pub mod Digits
pub mod Ends
pub mod Loads
pub mod Once
pub mod Steps
pub mod Texts
