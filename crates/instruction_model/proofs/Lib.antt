pub mod Completeness
pub mod Fields
pub mod Immediates
pub mod Soundness
pub mod Tables
