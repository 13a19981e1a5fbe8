pub mod Images
pub mod Names
pub mod Placing
pub mod PlanText
pub mod Sound
