pub mod Closing
pub mod Known
pub mod Right
pub mod Settled
pub mod Shown
pub mod Totalling
