pub mod Counting
pub mod Executable
pub mod Images
pub mod Table
