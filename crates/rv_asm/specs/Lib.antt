pub mod Answered
pub mod Assembly
pub mod Disassembly
pub mod WordLines
pub mod Worked
