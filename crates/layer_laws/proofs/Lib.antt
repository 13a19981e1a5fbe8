pub mod Answering
pub mod Climbing
pub mod Determined
pub mod Standing
pub mod Stored
pub mod Validity
