pub mod Kept
pub mod Missing
pub mod Reaching
pub mod Standing
