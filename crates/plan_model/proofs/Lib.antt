mod Distinct
pub mod Stacking
