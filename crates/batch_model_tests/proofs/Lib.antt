pub mod Fitting
pub mod Journals
pub mod Machines
pub mod Refusing
