pub mod Losing
pub mod Onward
pub mod Owning
