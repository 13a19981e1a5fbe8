pub mod SoFar
pub mod Ticks
