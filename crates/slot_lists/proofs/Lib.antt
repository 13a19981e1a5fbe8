pub mod Standing
pub mod Fewer
pub mod Waits
pub mod Changing
pub mod Deploying
