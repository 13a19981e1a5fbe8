pub mod Flat
pub mod Frames
pub mod Holding
pub mod Outcomes
pub mod Stores
pub mod Told
