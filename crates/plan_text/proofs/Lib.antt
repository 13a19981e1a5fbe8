pub mod Placed
pub mod Sketched
pub mod Started
