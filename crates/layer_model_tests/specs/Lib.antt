pub mod Evaluated
pub mod Plans
pub mod Shown
