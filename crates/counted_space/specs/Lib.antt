pub mod CountedSpace
pub mod Counted
pub mod Marks
pub mod Sound
