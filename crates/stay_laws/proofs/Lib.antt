pub mod Leaves
pub mod Others
pub mod Parks
pub mod Settled
pub mod Turning
