pub mod Climbing
pub mod Ending
pub mod Starting
pub mod Turns
pub mod UnderWay
