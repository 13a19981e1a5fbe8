pub mod OfPlan
pub mod Opened
pub mod Sized
pub mod Stakes
