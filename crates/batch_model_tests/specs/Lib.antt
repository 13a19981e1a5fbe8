pub mod Misfits
pub mod Plans
pub mod Rows
