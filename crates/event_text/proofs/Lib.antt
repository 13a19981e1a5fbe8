pub mod Digits
pub mod ReadBack
pub mod Lines
pub mod Words
