pub mod Layers
pub mod Overlay
pub mod Replies
