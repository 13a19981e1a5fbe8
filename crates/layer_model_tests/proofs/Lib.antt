pub mod Evaluating
pub mod Layering
pub mod Replying
