pub mod Files
pub mod Layout
pub mod Pages
pub mod Permission
pub mod StartOf
pub mod Valid
