pub mod Closes
pub mod Due
pub mod Given
pub mod Parkable
