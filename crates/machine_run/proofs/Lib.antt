pub mod Continued
pub mod Ending
pub mod Frames
pub mod Stopping
pub mod Turns
pub mod Waking
