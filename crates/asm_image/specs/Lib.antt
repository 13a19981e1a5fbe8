pub mod ImageOf
pub mod Misuse
pub mod Offsets
pub mod Sizes
pub mod Uses
