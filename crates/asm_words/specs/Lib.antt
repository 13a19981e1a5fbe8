pub mod Named
pub mod Names
pub mod Near
pub mod Numbers
pub mod Registers
pub mod Seen
pub mod Text
