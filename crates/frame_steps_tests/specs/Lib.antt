pub mod Mids
pub mod Filled
pub mod Parted
