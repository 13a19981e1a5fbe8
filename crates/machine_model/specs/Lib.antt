pub mod Hypercall
pub mod Instruction
pub mod Loaded
pub mod Machine
pub mod Run
pub mod Valid
