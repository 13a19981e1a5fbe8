pub mod Ending
pub mod ImageLine
pub mod Outside
pub mod Refusals
pub mod Sources
