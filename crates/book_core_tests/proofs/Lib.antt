pub mod Fitting
pub mod Givens
pub mod Images
pub mod Playing
pub mod Replaying
pub mod Serving
