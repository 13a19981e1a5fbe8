pub mod KindName
pub mod Ranges
pub mod Said
pub mod Statement
