pub mod Entered
pub mod Giving
pub mod Joined
pub mod NewPages
pub mod NewParts
