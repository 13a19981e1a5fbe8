pub mod Going
pub mod Staying
pub mod Ticking
