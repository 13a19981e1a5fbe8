pub mod Signs
pub mod Values
