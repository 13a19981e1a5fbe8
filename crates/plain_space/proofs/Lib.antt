pub mod Copies
pub mod Flats
pub mod Lists
pub mod Counting
pub mod Numbers
pub mod PageCopies
pub mod Pieces
pub mod Stores
