pub mod Joined
pub mod Pages
pub mod Regions
pub mod Soundness
pub mod Within
