pub mod Held
pub mod Program
pub mod Reading
pub mod Registers
