pub mod Calls
pub mod Changes
pub mod Recounts
pub mod NewEntries
pub mod FourFrames
pub mod Keeps
pub mod Links
