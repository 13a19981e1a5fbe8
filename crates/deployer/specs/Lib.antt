pub mod Closing
pub mod Grounds
pub mod Hosting
pub mod Layering
