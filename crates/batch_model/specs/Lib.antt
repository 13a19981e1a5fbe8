pub mod Closings
pub mod Events
pub mod Fits
pub mod Replies
pub mod Setting
pub mod Text
