pub mod Appending
pub mod Headers
pub mod ReadBack
