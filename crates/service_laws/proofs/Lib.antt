pub mod Building
pub mod Counting
pub mod Ending
pub mod Giving
pub mod Looking
pub mod Parking
pub mod Starting
pub mod Staying
