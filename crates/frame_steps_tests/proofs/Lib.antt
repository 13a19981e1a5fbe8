pub mod Placing
pub mod Visits
pub mod Worked
mod Filling
mod Closing
