pub mod Asm
pub mod Causes
pub mod Conversion
pub mod Dis
pub mod Listing
pub mod Loads
