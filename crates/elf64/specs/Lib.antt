pub mod Elf
pub mod FaultName
pub mod Fields
pub mod Laws
pub mod Segments
