pub mod Answered
pub mod Fits
pub mod Images
pub mod Placed
pub mod Told
