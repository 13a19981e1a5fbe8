pub mod Defining
pub mod Lines
pub mod Pieces
pub mod Steps
