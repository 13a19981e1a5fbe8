pub mod Climbed
pub mod Ended
pub mod Out
pub mod Running
