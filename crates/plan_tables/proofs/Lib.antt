pub mod Prepending
pub mod Items
pub mod Documents
pub mod NoFile
pub mod Told
