pub mod Outline
pub mod Stacks
