pub mod Bytes
pub mod Numerals
pub mod Parts
pub mod Pushed
