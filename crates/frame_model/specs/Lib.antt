pub mod Holdings
pub mod Rule
pub mod Views
pub mod Words
