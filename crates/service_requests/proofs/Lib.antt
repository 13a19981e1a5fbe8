pub mod Answering
pub mod Idling
pub mod Counted
