pub mod Claims
pub mod ImageFrames
pub mod Spaces
