pub mod Apart
pub mod Folds
pub mod Frames
pub mod Looks
pub mod Recents
pub mod Sound
