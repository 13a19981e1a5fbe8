pub mod Bounds
pub mod Extents
pub mod Frames
pub mod Legal
pub mod Line
pub mod Names
pub mod Reads
pub mod State
