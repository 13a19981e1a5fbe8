pub mod Hexadecimal
pub mod Texts
pub mod Ways
