pub mod Lists
pub mod Rests
pub mod Served
pub mod Stacks
pub mod Sums
