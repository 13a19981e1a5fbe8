pub mod Invalid
pub mod Lines
pub mod Rooms
