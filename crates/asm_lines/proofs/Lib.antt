pub mod Far
pub mod Faults
pub mod InRange
